use Rattle.hn_base.proofs.Names.{◌≡◌, ◌∙◌, sym, ap, nat_eq, to_be_bytes, from_be_bytes, Decides-like, Decides-eqb, bytes_eq-Decides}
use Rattle.std.specs.Bool.{Decides, one_answer}
use Rattle.std.specs.Int.{w64}
use Rattle.std.proofs.lemmas.Nat.{be_bytes_8}
use Rattle.hn_hash.proofs.hash.same_hash.Goals as goal

-- the bytes of the number that a hash makes are the hash
same : (c : goal.After-from_be_bytes-2) → Decides (nat_eq c.from_be_bytes.result c.from_be_bytes-2.result) (c.args.a ≡ c.args.b)
same c =
    let read_a : to_be_bytes w64 c.from_be_bytes.result ≡ c.args.a = be_bytes_8 c.args.a c.from_be_bytes.result (search) c.are_bytes.ensures c.from_be_bytes.ensures in
    let read_b : to_be_bytes w64 c.from_be_bytes-2.result ≡ c.args.b = be_bytes_8 c.args.b c.from_be_bytes-2.result (search) c.are_bytes-2.ensures c.from_be_bytes-2.ensures in
    Decides-like _
    (λ (same : c.from_be_bytes.result ≡ c.from_be_bytes-2.result). sym read_a ∙ ap (to_be_bytes w64) same ∙ read_b)
    (λ (same : c.args.a ≡ c.args.b). c.from_be_bytes.ensures ∙ ap (from_be_bytes w64) same ∙ sym c.from_be_bytes-2.ensures)
    (Decides-eqb c.from_be_bytes.result c.from_be_bytes-2.result)

pub returns : goal.returns
returns c = record { value = one_answer _ _ (same c) (bytes_eq-Decides c.args.a c.args.b); same = same c }
