mod Names
mod Sent
mod Taken
mod Stepped
mod Grown
mod Turned
mod Ticked
mod Logs
