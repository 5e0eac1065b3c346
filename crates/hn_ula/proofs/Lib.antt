mod Names
mod GeneratedOfNodes
mod GreatestOfNode
mod FoundInLists
mod OneDecision
mod SomeDecisions
mod Announced
