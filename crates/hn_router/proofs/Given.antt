-- What an event gives fits where its parts do.
use Rattle.hn_base.proofs.Names.{◌<◌, ◌^◌, ℕ, PlainPrefix, IsPrefix}
use Rattle.hn_router.proofs.Names.{OwnAddress, IsRangedAddress}
use Rattle.hn_rules.specs.Given.{IsRangedDelegation}

pub external_fits : (prefix : PlainPrefix) (valid preferred : ℕ) → IsPrefix prefix → valid < 2 ^ 32 → preferred < 2 ^ 32 → IsRangedDelegation prefix valid preferred
external_fits prefix valid preferred is valid_fits preferred_fits = record { prefix_is = is; valid_fits = valid_fits; preferred_fits = preferred_fits }

pub address_fits : (own : OwnAddress) → own.0.0 < 2 ^ 32 → own.1 < 2 ^ 128 → IsRangedAddress own
address_fits own endpoint address = record { endpoint = endpoint; address = address }
