use Rattle.hn_base.proofs.Names.{List, ℕ, sym, subst, ◌∙◌, rules, All}
use Rattle.hn_own.proofs.Names.{IsAscendingSet, IsEncoded, items_of, pieces_of}
use Rattle.hn_own.proofs.OwnPieces.{encodings_encoded}
use Rattle.hn_own.proofs.OwnSizes.{own_data_short}
use Rattle.hn_own.proofs.own.OwnData.new.Goals as goal

pub from_items-requires : goal.from_items-requires
from_items-requires c =
    subst (All IsEncoded) (sym (c.as_slice.ensures.value ∙ c.in_ok-pieces.ensures.pieces)) (encodings_encoded (items_of c.args.now c.args.items) c.in_ok-pieces.ensures.writable)

pub invariant_of-result : goal.invariant_of-result
invariant_of-result c =
    let set : IsAscendingSet (pieces_of c.args.now c.args.items) c.in_ok-body.body =
    subst (λ (pieces : List (List ℕ)). IsAscendingSet pieces c.in_ok-body.body) (c.as_slice.ensures.value ∙ c.in_ok-pieces.ensures.pieces) c.in_ok-body.ensures.set
    in
    record {
      writable = c.in_ok-pieces.ensures.writable;
      encoded = set;
      hashed = search rules;
      short = own_data_short c.args.now c.args.items c.in_ok-body.body c.requires set;
    }
