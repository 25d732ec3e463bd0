mod Beginning
mod Blank
mod Dirty
mod OneFile
mod Opened
