pub mod Waits
pub mod Ended
pub mod Lefts
pub mod Dropping
pub mod After
pub mod Wrote
pub mod Overwrote
pub mod Served
pub mod LedFrom
pub mod Holds
pub mod Sums
pub mod Runs
mod Closed
mod Nexts
mod Lives
mod Taking
mod Gone
mod Rows
mod Begun
mod Picked
mod Chooses
mod Left
mod Looked
mod Released
mod Erasing
mod Aimed
pub mod Tries
mod Readied
mod CopyUsed
mod Led
mod Moved
mod CopyImages
mod MoveSteps
mod MoveAnswers
mod Soiled
mod Dropped
mod Chosen
mod Taken
mod Used
mod Tied
pub mod Counts
pub mod Forms
pub mod GivenBack
pub mod Images
pub mod News
pub mod Apart
pub mod Medium
pub mod Small
pub mod Numbers
pub mod Openings
pub mod Placings
pub mod Segments
pub mod Shapes
pub mod States
mod Wearing
