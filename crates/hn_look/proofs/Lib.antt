mod Names
mod Lists
mod Streams
mod LastLines
mod Replays
mod Refusals
mod Looks
mod Forms
