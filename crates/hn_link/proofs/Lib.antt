mod Names
mod Elections
mod InView
mod Candidates
mod Joined
mod LaterCommonLink
mod Exists
