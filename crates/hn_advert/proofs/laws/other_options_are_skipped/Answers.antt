use Rattle.hn_base.proofs.Names.{◌∷◌, refl, filter_map-append}
use Rattle.hn_advert.proofs.Names.{OtherOption, info_of}
use Rattle.hn_advert.proofs.laws.other_options_are_skipped.Goals as goal

pub returns : goal.returns
returns c = λ header front rest kind units body.
    rw (filter_map-append info_of front (OtherOption kind units body ∷ rest), filter_map-append info_of front rest) refl
