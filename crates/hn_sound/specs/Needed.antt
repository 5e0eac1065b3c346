-- A premise or a condition is needed: a home meets all else and is not sound.
use Rattle.hn_sound.specs.AtRest.{EachPair, IsHomeAtRest}
use Rattle.hn_sound.specs.Conditions.{Condition, IsAtRestBut}
use Rattle.hn_sound.specs.Home.{Home}
use Rattle.hn_sound.specs.Premises.{Premise, IsHome, IsHomeBut}
use Rattle.hn_sound.specs.Sound.{IsSoundHome}

pub record ShowsPremise (but : Premise) (home : Home) : Type 0 where
  pub all_other : IsHomeBut but home
  pub at_rest : IsHomeAtRest home
  pub not_sound : ¬ IsSoundHome home

pub record ShowsCondition (but : Condition) (home : Home) : Type 0 where
  pub is_home : IsHome home
  pub at_rest_but : EachPair (IsAtRestBut but) home
  pub not_sound : ¬ IsSoundHome home
