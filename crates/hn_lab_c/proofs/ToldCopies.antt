-- What is told of the copy of a number.
use Rattle.hn_base.proofs.Names.{◌≡◌, ◌∙◌, List, ℕ, Option, Some, None, refl, ap, subst}
use Rattle.std.specs.Option.{option_map}
use Rattle.std.specs.List.{slice_get}
use Rattle.std.proofs.lemmas.Option.{same_Some}
use Rattle.hn_world.specs.Leaves.{info_of_copy, HasInfo}
use Rattle.hn_world.specs.Refusal.{copy_at}
use Rattle.hn_world.specs.declared.copies.CopyInfo.{CopyInfo}
use Rattle.hn_world.specs.declared.copies.MailCopy as mail
use Rattle.hn_world.specs.declared.member.Member.{Member}
use Rattle.hn_world.specs.declared.parts.Parts.{Parts}
use Rattle.hn_lab_c.specs.Kinds.{copy_out}
use Rattle.hn_lab_c.specs.Looks.{IsCopyOut}
use Rattle.hn_lab_c.specs.declared.kinds.MailCopy.{MailCopy}

-- the router that a copy goes to is there
receiver_there : (c : mail.MailCopy) (there : Option Member) (info : CopyInfo) → Some info ≡ option_map (info_of_copy c) there
    → (m : Member) × (there ≡ Some m) × (info ≡ info_of_copy c m)
receiver_there c None info is = absurd cc
receiver_there c (Some m) info is = (m, refl, same_Some info (info_of_copy c m) is)

copy_there : (w : Parts) (copy : Option mail.MailCopy) (info : CopyInfo) → HasInfo w copy (Some info)
    → (c : mail.MailCopy) × (copy ≡ Some c) × (m : Member) × (slice_get w.members c.to.place ≡ Some m) × (info ≡ info_of_copy c m)
copy_there w None info is = absurd cc
copy_there w (Some c) info is =
    let found = receiver_there c (slice_get w.members c.to.place) info is in
    (c, refl, found.0, found.1, found.2)

pub told_so : (w : Parts) (number : ℕ) (info : CopyInfo) (bytes : List ℕ) (out : MailCopy) (OfBytes : List ℕ → Type 0) → HasInfo w (copy_at w number) (Some info)
    → Some bytes ≡ option_map (λ c. c.bytes) (copy_at w number) → out ≡ copy_out w info → OfBytes bytes → IsCopyOut w number OfBytes out
told_so w number info bytes out OfBytes is are out_is so =
    let found = copy_there w (copy_at w number) info is in
    let bytes_are : bytes ≡ found.0.bytes = same_Some bytes found.0.bytes (are ∙ ap (option_map (λ (c : mail.MailCopy). c.bytes)) found.1) in
    record {
      copy = found.0;
      at = found.1;
      receiver = found.2;
      for_router = found.3;
      out_is = out_is ∙ ap (copy_out w) found.4;
      of_bytes = subst OfBytes bytes_are so;
    }
