use Rattle.hn_base.proofs.Names.{[], ◌∷◌, List, map, subst, All, All-cons, All-nil}
use Rattle.hn_own.proofs.Names.{IsWritable, PeerLink, AssignedPrefix, OwnPrefix, OwnAddress, version_item, peer_item, external_items, assigned_item, address_item}
use Rattle.hn_own.proofs.OwnPieces.{writable_together}
use Rattle.hn_own.proofs.own.OwnItems.pieces.Goals as goal

pub returns-clause-writable : goal.returns-clause-writable
returns-clause-writable c =
    let own = c.args.self.now in
    let version = version_item own.caps in
    let first : All IsWritable (version ∷ []) = All-cons IsWritable version [] c.in_ok-encode_version.ensures.writable (All-nil IsWritable) in
    let links = subst (λ (links : List PeerLink). All IsWritable (map peer_item links)) c.as_slice.ensures c.in_ok-add_link_pieces.ensures.writable in
    let external = subst (λ (list : List OwnPrefix). All IsWritable (external_items c.args.now list)) c.as_slice-2.ensures c.in_ok-add_external_piece.ensures.writable in
    let assigned = subst (λ (assigned : List AssignedPrefix). All IsWritable (map assigned_item assigned)) c.as_slice-3.ensures c.in_ok-add_assigned_pieces.ensures.writable in
    let addresses = subst (λ (addresses : List OwnAddress). All IsWritable (map address_item addresses)) c.as_slice-4.ensures c.in_ok-add_address_pieces.ensures.writable in
    writable_together (version ∷ []) (map peer_item own.links) (external_items c.args.now own.delegated) (map assigned_item own.assigned)
    (map address_item own.addresses) first links external assigned addresses
