mod Names
pub mod NodePlaces
pub mod TableStays
pub mod Losses
pub mod Answering
pub mod Changing
pub mod Uniqueness
mod Listed
mod AnswerMade
mod Tables
mod WhatWasBrought
mod Forgettings
mod AgesOfNodes
