-- The bytes of a name are ASCII, and so text.
use Rattle.hn_base.proofs.Names.{◌≡◌, ◌<◌, ℕ, true, List, [], ◌∷◌, arith, zero, suc, common_steps, nat_tests, IsUtf8-from_ascii, list_all, IsAscii, IsUtf8, is_name_byte}

pub small : (c : ℕ) → is_name_byte c ≡ true → c < 128
small c h = grind (arith, nat_tests)

pub IsAscii-from_name_bytes : (text : List ℕ) → list_all is_name_byte text ≡ true → IsAscii text
IsAscii-from_name_bytes [] h i = grind (arith, common_steps)
IsAscii-from_name_bytes (c ∷ text) h zero = grind (arith, common_steps, small)
IsAscii-from_name_bytes (c ∷ text) h (suc i) = grind (arith, common_steps, IsAscii-from_name_bytes text)

pub IsUtf8-from_name_bytes : (text : List ℕ) → list_all is_name_byte text ≡ true → IsUtf8 text
IsUtf8-from_name_bytes text h = IsUtf8-from_ascii text (IsAscii-from_name_bytes text h)
