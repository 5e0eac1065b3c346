-- An advertisement that is sent next, from the values that the code meets.
use Rattle.hn_base.proofs.Names.{◌≡◌, ℕ, List, length, ap, ◌∙◌, subst, IsTotalOrder}
use Rattle.hn_base.specs.declared.ids.EpId.{EpId}
use Rattle.hn_advert.specs.declared.advert.Advert.{Advert}
use Rattle.hn_advert.specs.declared.advert.Info.{Info}
use Rattle.hn_advert.specs.Advert.{advert_bytes}
use Rattle.hn_pair.specs.Pair.{pair_cmp}
use Rattle.hn_departed.specs.declared.departures.Told.{Told}
use Rattle.hn_departed.specs.Departed.{with_departed, told_after, told_at, with_told}
use Rattle.hn_rules.specs.Router.{IsRouter}
use Rattle.hn_rules.specs.declared.state.State.{State}
use Rattle.hn_router.specs.Advertising.{IsAdvertAt}
use Rattle.hn_kept.specs.Kept.{Kept, IsNextAdvert, room_beside}
use Rattle.hn_kept.proofs.HeldPrefixes.{few_held}

pub is_next : IsTotalOrder pair_cmp → (k : Kept) (at : EpId) (options : ℕ) (bytes : List ℕ) (s : State) (d told : List (EpId × Told)) (advert : Advert) (now count room : ℕ) (held infos : List Info)
    → s ≡ k.router → d ≡ k.told → IsRouter s → IsAdvertAt s at advert → now ≡ s.moment → count ≡ length advert.infos → room ≡ room_beside options count → held ≡ advert.infos
    → infos ≡ with_departed now held room (told_at at d) → told ≡ with_told now at (told_after now held room (told_at at d)) d
    → bytes ≡ advert_bytes (record advert { infos = infos }) → IsNextAdvert k at options bytes told
is_next total k at options bytes s d told advert now count room held infos same past router is_advert now_is count_is room_is held_is infos_are told_is bytes_are =
    let moment : now ≡ k.router.moment = now_is ∙ ap (λ (t : State). t.moment) same in
    let beside : room ≡ room_beside options (length advert.infos) = room_is ∙ ap (room_beside options) count_is in
    let of_k : IsAdvertAt k.router at advert = subst (λ (t : State). IsAdvertAt t at advert) same is_advert in
    record {
      advert = advert;
      is_advert = of_k;
      few = few_held total k.router at advert.infos (subst IsRouter same router) of_k.infos;
      bytes_are = bytes_are ∙ ap (λ (is : List Info). advert_bytes (record advert { infos = is }))
          (infos_are ∙ (λ i. with_departed (moment i) (held_is i) (beside i) (told_at at (past i))));
      told_is = told_is ∙ (λ i. with_told (moment i) at (told_after (moment i) (held_is i) (beside i) (told_at at (past i))) (past i));
    }
