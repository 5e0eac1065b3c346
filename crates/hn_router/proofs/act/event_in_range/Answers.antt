use Rattle.hn_router.proofs.Given.{external_fits}
use Rattle.hn_router.proofs.act.event_in_range.Goals as goal

pub returns-in-Attach : goal.returns-in-Attach
returns-in-Attach c = rw c.in-Attach.is c.endpoint_in_range.ensures

pub returns-in-External : goal.returns-in-External
returns-in-External c = rw c.in-External.is (external_fits _ _ _ c.delegation_in_range.ensures.prefix c.delegation_in_range.ensures.valid c.delegation_in_range.ensures.preferred)

pub returns-in-Private : goal.returns-in-Private
returns-in-Private c = rw c.in-Private.is c.private_in_range.ensures

pub returns-in-Addresses : goal.returns-in-Addresses
returns-in-Addresses c = rw c.in-Addresses.is c.addresses_in_range.ensures
