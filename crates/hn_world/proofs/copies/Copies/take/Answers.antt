use Rattle.hn_base.proofs.Names.{◌≡◌, ◌<◌, ◌∙◌, false, List, Some, length, refl, sym, ap, slice_get, slice_set, arith, unwrap_or, slice_get_read}
use Rattle.hn_world.proofs.Names.{MailCopy, first_waiting}
use Rattle.hn_world.proofs.WaitingCopies.{first_later, stands, waits_not, taken}
use Rattle.hn_world.proofs.copies.Copies.take.Goals as goal

pub returns-then-not-index : goal.returns-then-not-index
returns-then-not-index c = λ copy at.
    let xs = c.self.inside.items.items in
    let view : xs ≡ c.args.self.now = c.self.view_is in
    let same : copy ≡ c.index.result.now = stands xs c.args.place c.index.result.now copy c.index.ensures (ap (λ ys. slice_get ys c.args.place) view ∙ at) in
    waits_not c.args.self.now c.args.place copy at (ap (λ (x : MailCopy). x.waiting) same ∙ c.if-not-index.true)

pub next_waiting-self-inside-requires : goal.next_waiting-self-inside-requires
next_waiting-self-inside-requires c =
    let xs = c.self.inside.items.items in
    let was = c.self.invariant.first_is in
    let later = first_later (λ (x : MailCopy). x.waiting) xs c.args.place (record c.index_mut.result.now { waiting = false }) refl in
    let now = ap (λ (ys : List MailCopy). unwrap_or (first_waiting ys) (length ys)) c.as_slice.ensures.value in
    omega arith

pub invariant_of-self : goal.invariant_of-self
invariant_of-self c =
    let xs = c.self.inside.items.items in
    let read = c.index_mut.result.now in
    let lt : c.args.place < length xs = let view = ap (λ (ys : List MailCopy). length ys) c.self.view_is in let within = c.requires in omega arith in
    let at : slice_get xs c.args.place ≡ Some read = slice_get_read xs (length xs) c.args.place read refl lt c.index_mut.ensures.value in
    let same : read ≡ c.index.result.now = stands xs c.args.place c.index.result.now read c.index.ensures at in
    let next = c.next_waiting-self-inside.ensures ∙ ap (λ (ys : List MailCopy). unwrap_or (first_waiting ys) (length ys)) c.as_slice.ensures.value in
    taken xs c.args.place read _ _ _ _ at (ap (λ (x : MailCopy). x.waiting) same ∙ c.if-not-index.false) c.self.invariant next

pub returns : goal.returns
returns c = λ copy at.
    let xs = c.self.inside.items.items in
    let view : xs ≡ c.args.self.now = c.self.view_is in
    let same : copy ≡ c.index_mut.result.now = stands xs c.args.place c.index_mut.result.now copy c.index_mut.ensures.value (ap (λ ys. slice_get ys c.args.place) view ∙ at) in
    ap (λ (x : MailCopy). slice_set xs c.args.place (record x { waiting = false })) (sym same) ∙ ap (λ (ys : List MailCopy). slice_set ys c.args.place (record copy { waiting = false })) view
