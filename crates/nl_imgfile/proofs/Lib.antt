mod DiskOperations
mod DiskPages
mod Forming
mod HeaderBytes
mod OnFileLiterals
mod RecordBytes
