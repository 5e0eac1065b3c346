-- What was planned before an event at a router happens.
use Rattle.std.specs.Prelude.{◌≡◌, ℕ, Option, Some}
use Rattle.std.specs.List.{slice_get}
use Rattle.hn_base.specs.Words.{Took}
use Rattle.hn_router.specs.Act.{PlainEvent, Arrive, Happened}
use Rattle.hn_router.specs.Plan.{PlainPlan}
use Rattle.hn_rules.specs.declared.arrival.passing.Passing.{Passing}
use Rattle.hn_rules.specs.Done.{nothing}
use Rattle.hn_rules.specs.Passing.{after_passing}
use Rattle.hn_rules.specs.Router.{IsRouter}
use Rattle.hn_world.specs.declared.copies.MailCopy.{MailCopy}
use Rattle.hn_world.specs.declared.member.Member.{Member}
use Rattle.hn_world.specs.declared.parts.Parts.{Parts}
use Rattle.hn_world.specs.Refusal.{copy_at}

-- it is what the event would do at the router of this place
pub record IsPlanned (place : ℕ) (event : PlainEvent) (told told_after : Option (ℕ → ℕ)) (w : Parts) (plan : PlainPlan) : Type 0 where
  pub member : Member
  pub is_member : slice_get w.members place ≡ Some member
  pub happened : Happened w.moment event member.router plan.state plan.done
  pub drew : Took told plan.done.words told_after

-- the router of this place lets the event pass
pub record LetsPass (place : ℕ) (event : PlainEvent) (w : Parts) (passing : Passing) : Type 0 where
  pub member : Member
  pub is_member : slice_get w.members place ≡ Some member
  pub happened : Happened w.moment event member.router (after_passing passing w.moment member.router) nothing
  pub router : IsRouter (after_passing passing w.moment member.router)

-- the router of this place lets the copy of a number pass, which goes to it
pub record LetsCopyPass (copy place : ℕ) (w : Parts) (passing : Passing) : Type 0 where
  pub mail : MailCopy
  pub is_copy : copy_at w copy ≡ Some mail
  pub is_place : mail.to.place ≡ place
  pub passes : LetsPass place (Arrive (record { endpoint = mail.to.endpoint; from = mail.from; multicast = mail.multicast }) mail.bytes) w passing
