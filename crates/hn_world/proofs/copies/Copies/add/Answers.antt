use Rattle.hn_base.proofs.Names.{◌≡◌, ◌∙◌, ◌^◌, min, List, length, ap, arith}
use Rattle.hn_world.proofs.Names.{MailCopy, bytes_of_copies}
use Rattle.hn_world.proofs.WaitingCopies.{added}
use Rattle.hn_world.proofs.copies.Copies.add.Goals as goal

pub invariant_of-self-2 : goal.invariant_of-self-2
invariant_of-self-2 c =
    let more = c.args.more.now in
    let count : c.len-count.result ≡ length more.items = let e = c.len-count.ensures in omega (arith, more.ok.0) in
    let bytes = c.bytes_of-bytes.ensures ∙ ap (λ (ys : List MailCopy). min (bytes_of_copies ys) (2 ^ 28)) c.as_slice.ensures.value in
    added c.self.inside.items.items more.items _ _ _ _ _ _ _ c.requires c.self.invariant c.in_ok-append.ensures.items count bytes c.min-self-inside.ensures
