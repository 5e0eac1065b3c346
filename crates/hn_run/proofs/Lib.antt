mod Names
mod OneCall
mod StatusesOfWords
mod LeftOnWire
