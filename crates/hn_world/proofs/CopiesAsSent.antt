-- What holds of the bytes of what is sent holds of the bytes of its copies.
use Rattle.hn_base.proofs.Names.{◌-◌, ℕ, false, List, [], ◌∷◌, Option, Some, None, filter, All-nil, All-append, All-head, All-tail, All-map, All-set}
use Rattle.hn_world.proofs.Names.{All, Outgoing, MailCopy, Target, Member, Parts, copies_of, copies_of_send, copies_on, copy_for, gets, on_link, link_of, taken}

module _ (P : List ℕ → Type 0) where
  abbrev pub Copied : MailCopy → Type 0
  Copied c = P c.bytes

  copied_on : (members : List Member) (sender : Target) (send : Outgoing) (link : Option ℕ) → P send.bytes → All Copied (copies_on members sender send link)
  copied_on members sender send None one = All-nil Copied
  copied_on members sender send (Some link) one = All-map Copied (copy_for sender send.to send.bytes) (filter (gets sender send.to) (on_link link 0 members)) (λ k d within. one)

  pub copied : (members : List Member) (place : ℕ) (m : Member) (sends : List Outgoing) → All (λ o. P o.bytes) sends → All Copied (copies_of members place m sends)
  copied members place m [] all = All-nil Copied
  copied members place m (send ∷ sends) all =
      All-append Copied (copies_of_send members place m send) (copies_of members place m sends)
      (copied_on members (record { place = place; endpoint = send.endpoint }) send (link_of send.endpoint m) (All-head (λ (o : Outgoing). P o.bytes) send sends all))
      (copied members place m sends (All-tail (λ (o : Outgoing). P o.bytes) send sends all))

  -- also after a copy was taken
  pub still_copied : (copy : ℕ) (mail : MailCopy) (w : Parts) → P mail.bytes → All Copied w.copies → All Copied (taken copy mail w).copies
  still_copied copy mail w one all = All-set Copied w.copies (copy - 1) (record mail { waiting = false }) one all
