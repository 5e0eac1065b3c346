-- How a call of a play ended in which lines came up, and what of them a sink got.
use Rattle.std.specs.Prelude.{◌≡◌, ◌≢◌, ℕ, List, [], ◌∷◌, ◌++◌, Option, None, Some, Result, Ok, Err}
use Rattle.std.specs.Io.KnownBytes.{Appends}
use Rattle.hn_io.specs.declared.fault.IoFault.TheVariants.{Failed, NoMemory}
use Rattle.hn_world.specs.declared.parts.Parts.{Parts}
use Rattle.hn_play.specs.declared.end.Stop.{Stop}
use Rattle.hn_play.specs.declared.end.Stop.TheVariants.{Cut}
use Rattle.hn_play.specs.Carrying.{IsLeftAt}
use Rattle.hn_streams.specs.Output.{IsPart, AppendsFront}
use Rattle.hn_play.specs.Process.{Process}
use Rattle.hn_play.specs.Stage.{Stage}
use Rattle.hn_play.specs.Told.{Told, told, bytes_of}

-- A failed sink cut a text right after its last line came up in this world: it got the lines before that one, and a proper
-- part of that one.
pub record IsCutThere (w : Parts) (text : List Told) (before after : Option (List ℕ)) : Type 0 where
  pub front : List Told
  pub line : List ℕ
  pub part : List ℕ
  pub text_is : text ≡ front ++ told w (line ∷ [])
  pub in_part : IsPart part line
  pub appends : Appends before after (bytes_of front ++ part)

-- What a sink got of a text that came up before an end in this world: all of it; where the sink failed, all but a part of the
-- last line; where memory ended, a front.
abbrev pub Gets : Option Stop → Parts → List Told → Option (List ℕ) → Option (List ℕ) → Type 0
Gets (Some (Cut Failed)) w text before after = IsCutThere w text before after
Gets (Some (Cut NoMemory)) w text before after = AppendsFront before after (bytes_of text)
Gets _ w text before after = Appends before after (bytes_of text)

-- A process ends so at some stage, and a sink got what came up. It is the last stage of the play, but where memory ended: then no
-- more is known of what is left of the play than how its copies go.
pub record EndsAt (process : Process) (stop : Option Stop) (before after : Stage) (held held_after : Option (List ℕ)) : Type 0 where
  pub at : Stage
  pub ended : process stop before at
  pub more : List Told
  pub text_is : at.text ≡ before.text ++ more
  pub is_last : stop ≢ Some (Cut NoMemory) → at ≡ record after { text = at.text }
  pub wire : IsLeftAt at after.route
  pub gets : Gets stop at.world more held held_after

-- by the answer of the call
abbrev pub EndsWriting : {A : Type 0} → Process → Result A Stop → Stage → Stage → Option (List ℕ) → Option (List ℕ) → Type 0
EndsWriting process (Ok answer) before after held held_after = EndsAt process None before after held held_after
EndsWriting process (Err stop) before after held held_after = EndsAt process (Some stop) before after held held_after
