mod Blank
mod Landing
mod Reopened
mod Retaining
mod Standing
