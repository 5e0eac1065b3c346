-- What a router holds, answers and sends stays published, or texts that were published collide.
use Rattle.hn_base.proofs.Names.{List, [], ◌∷◌, ◌++◌, inl, inr, refl, sym, subst, All, cond_both, append-nil, All-nil, All-append, All-push, All-weaker, Contains-append_right, Contains-push}
use Rattle.hn_rules.proofs.Names.{Contains, PlainTlv, spelling, tlv_of, Outgoing, Publication, Running, is_answered, ChangeTable, PutId, Publish, AddAnswer, AddSends, ForgetAnswers, Change, change}
use Rattle.hn_rules.proofs.Names.{IsAllowed, EachKeeps, TextsCollide, TlvsSayPublished, BytesSayPublished, IsGenuineAnswer, GrowsFrom, ChangesOnlyAdd, ChangesKeepHashed, IsHashed}
use Rattle.hn_rules.specs.Genuine.{IsGenuineSoFar, IsGenuineOrCollides}
use Rattle.hn_rules.specs.Laws.{ChangesKeepGenuine}
use Rattle.hn_rules.proofs.Published.{includes_front, includes_more, collide_more, holds_more, tlvs_more, bytes_more, answer_more, TableLaws, table_holds}
use Rattle.hn_rules.proofs.Sayings.{SayLaws, answer_genuine, sends_say}

-- the laws on which it rests
pub record GenuineLaws : Type 0 where
  pub add : ChangesOnlyAdd
  pub hashed : ChangesKeepHashed
  pub table : TableLaws
  pub say : SayLaws

module _ (laws : GenuineLaws) (past : List Publication) (tlvs : List PlainTlv) (trusted : TlvsSayPublished past tlvs) where
  -- texts that collide do so after more was published
  still_collide : (c : Change) (r : Running) → IsAllowed tlvs c r → TextsCollide (past ++ r.done.published) → TextsCollide (past ++ (change c r).done.published)
  still_collide c r is collide =
      let nothing_yet : GrowsFrom r.done r =
      record {
        sends = ([], sym (append-nil r.done.sends));
        notes = ([], sym (append-nil r.done.notes));
        published = ([], sym (append-nil r.done.published));
        words = ([], sym (append-nil r.done.words));
      } in
      let more = (laws.add tlvs r.done c r is nothing_yet).published in
      subst (λ (list : List Publication). TextsCollide (past ++ list)) (sym more.1)
      (collide_more (past ++ r.done.published) (past ++ (r.done.published ++ more.0)) (includes_more past r.done.published more.0) collide)

  -- answers and sends say what was published, after one publication more
  answers_more : (r : Running) (p : Publication) → All (IsGenuineAnswer (past ++ r.done.published)) r.answers → All (IsGenuineAnswer (past ++ (r.done.published ++ p ∷ []))) r.answers
  answers_more r p = All-weaker _ _ (answer_more (past ++ r.done.published) (past ++ (r.done.published ++ p ∷ [])) (includes_more past r.done.published (p ∷ []))) r.answers

  sends_more : (r : Running) (p : Publication) → All (λ o. BytesSayPublished (past ++ r.done.published) o.bytes) r.done.sends
      → All (λ o. BytesSayPublished (past ++ (r.done.published ++ p ∷ [])) o.bytes) r.done.sends
  sends_more r p =
      All-weaker (λ (o : Outgoing). BytesSayPublished (past ++ r.done.published) o.bytes) (λ (o : Outgoing). BytesSayPublished (past ++ (r.done.published ++ p ∷ [])) o.bytes)
      (λ (o : Outgoing). bytes_more (past ++ r.done.published) (past ++ (r.done.published ++ p ∷ [])) (includes_more past r.done.published (p ∷ [])) o.bytes) r.done.sends

  last_there : (r : Running) (p : Publication) → Contains (past ++ (r.done.published ++ p ∷ [])) p
  last_there r p = Contains-append_right past (r.done.published ++ p ∷ []) p (Contains-push r.done.published p)

  trusted_now : (r : Running) → TlvsSayPublished (past ++ r.done.published) tlvs
  trusted_now r = tlvs_more past (past ++ r.done.published) (includes_front past r.done.published) tlvs trusted

  by_change : (c : Change) (r : Running) → IsAllowed tlvs c r → IsHashed r.state → IsHashed (change c r).state → IsGenuineSoFar past r → IsGenuineOrCollides past (change c r)
  by_change (ChangeTable how) r may before after so =
      elim (table_holds laws.table (past ++ r.done.published) tlvs (trusted_now r) how r.state may before.well.table so.state.others) [
        | inl holds ↦ inl (after, record { state = record { own = so.state.own; others = holds }; answers = so.answers; sends = so.sends })
        | inr collide ↦ inr collide
      ]
  by_change (Publish number own) r may before after so =
      let p : Publication = record { id = r.state.id; number = number; body = own.body } in
      inl (
        after,
        record {
          state = record {
            own = record { publication = p; there = last_there r p; of_node = refl; of_number = refl; of_body = refl };
            others = holds_more (past ++ r.done.published) (past ++ (r.done.published ++ p ∷ [])) (includes_more past r.done.published (p ∷ [])) r.state so.state.others;
          };
          answers = answers_more r p so.answers;
          sends = sends_more r p so.sends;
        },
      )
  by_change (PutId id number own) r may before after so =
      let p : Publication = record { id = id; number = number; body = own.body } in
      inl (
        after,
        record {
          state = record {
            own = record { publication = p; there = last_there r p; of_node = refl; of_number = refl; of_body = refl };
            others = holds_more (past ++ r.done.published) (past ++ (r.done.published ++ p ∷ [])) (includes_more past r.done.published (p ∷ [])) r.state so.state.others;
          };
          answers = answers_more r p so.answers;
          sends = sends_more r p so.sends;
        },
      )
  by_change (AddAnswer about i) r is before after so =
      let one = answer_genuine (past ++ r.done.published) laws.say about r.state i before so.state is in
      inl (
        after,
        record {
          state = record { own = so.state.own; others = so.state.others };
          answers = cond_both (is_answered about r.answers) r.answers _ (All (IsGenuineAnswer (past ++ r.done.published))) (λ _. so.answers)
              (λ _. All-push (IsGenuineAnswer (past ++ r.done.published)) r.answers (record { subject = about; tlv = spelling (tlv_of i) }) so.answers one);
          sends = so.sends;
        },
      )
  by_change (AddSends sends) r is before after so =
      inl (
        after,
        record {
          state = record { own = so.state.own; others = so.state.others };
          answers = so.answers;
          sends = All-append (λ (o : Outgoing). BytesSayPublished (past ++ r.done.published) o.bytes) r.done.sends sends so.sends
              (sends_say (past ++ r.done.published) laws.say r sends before.hash so.answers is);
        },
      )
  by_change ForgetAnswers r is before after so =
      inl (
        after,
        record {
          state = record { own = so.state.own; others = so.state.others };
          answers = All-nil (IsGenuineAnswer (past ++ r.done.published));
          sends = so.sends;
        },
      )
  by_change c r is before after so =
      inl (after, record { state = record { own = so.state.own; others = so.state.others }; answers = so.answers; sends = so.sends })

  each_kept : EachKeeps tlvs (IsGenuineOrCollides past)
  each_kept c r is (inl (hashed, so)) = by_change c r is hashed (laws.hashed tlvs c r is hashed) so
  each_kept c r is (inr collide) = inr (still_collide c r is collide)

pub each_genuine : GenuineLaws → ChangesKeepGenuine
each_genuine laws past tlvs trusted = each_kept laws past tlvs trusted
