mod Endings
mod Stops
