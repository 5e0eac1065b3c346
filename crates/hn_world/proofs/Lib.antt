mod Names
mod Accepted
pub mod DoneAsPlanned
pub mod EqualHashes
pub mod AttachedEndpoints
pub mod OneAgreement
pub mod OneMoreEvent
mod KeptTraces
pub mod WaitingCopies
pub mod OneStep
pub mod ElementAtPlace
pub mod SoundRouters
pub mod EndpointsOnLink
mod RouterOfEvent
mod CopiesAsSent
mod WithinLimits
mod Authentics
mod MorePublished
mod SomeSteps
mod CopiesOfBytes
mod ReceiversOfCopies
mod EndpointOfAddress
mod SameNames
pub mod RouterNames
mod SomeAgreements
