mod Names
pub mod ItemLemmas
pub mod Within
pub mod LineLemmas
pub mod TextSoFar
pub mod OneText
pub mod WholeText
pub mod TextExists
