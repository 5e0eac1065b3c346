-- The script of a soak: a tree of routers with an uplink at its root, a run that loses copies, and reports.
-- docs/FORMATS.md shows one.
use Rattle.std.specs.Prelude.{ℕ, zero, suc, ◌/◌, ◌==◌, if◌then◌else◌, List, [], ◌∷◌, ◌++◌, codes}
use Rattle.std.specs.Fmt.{decimal}
use Rattle.hn_base.specs.HexText.{id_text}
use Rattle.hn_script.specs.Script.{ended, first_line}
use Rattle.hn_base.specs.declared.version.Version.TheVariants.{One}

-- the name of the router, and of the link, of a number
abbrev pub router_name : ℕ → List ℕ
router_name k = codes "r" ++ decimal k

abbrev pub link_name : ℕ → List ℕ
link_name k = codes "l" ++ decimal k

-- what there is for each number from 1 to n
abbrev pub up_to : ℕ → (ℕ → List (List ℕ)) → List (List ℕ)
up_to zero texts = []
up_to (suc n) texts = up_to n texts ++ texts (suc n)

-- the random words, and of a hundred copies how many are lost
unfoldable pub chance_texts : ℕ → List (List ℕ)
chance_texts seed = (codes "seed " ++ decimal seed) ∷ codes "loss 10" ∷ []

-- a link
unfoldable pub link_texts : ℕ → List (List ℕ)
link_texts k = (codes "link " ++ link_name k) ∷ []

-- a router but the first has endpoint 1 on the link of the router of half its number
unfoldable pub upward_texts : ℕ → List (List ℕ)
upward_texts k = if k == 1 then [] else (codes "attach " ++ router_name k ++ codes " 1 " ++ link_name (k / 2)) ∷ []

-- a router; its endpoint 2 is on the link of its own number
unfoldable pub router_texts : ℕ → List (List ℕ)
router_texts k =
    (codes "router " ++ router_name k ++ codes " " ++ id_text k) ∷ upward_texts k
    ++ (codes "attach " ++ router_name k ++ codes " 2 " ++ link_name k) ∷ []

-- the uplink, and the run
unfoldable pub run_texts : List (List ℕ)
run_texts = codes "external r1 2001:db8::/56 7200 3600" ∷ codes "run 60000 100" ∷ []

-- what is shown of the first router and of the last
unfoldable pub report_texts : ℕ → List (List ℕ)
report_texts n =
    (codes "compare r1 " ++ router_name n) ∷ codes "audit r1" ∷ codes "used r1" ∷ codes "prefixes r1"
    ∷ (codes "prefixes " ++ router_name n) ∷ codes "mail" ∷ codes "show r1" ∷ (codes "show " ++ router_name n) ∷ []

-- the lines after the first, for n routers and a seed
unfoldable pub soak_texts : ℕ → ℕ → List (List ℕ)
soak_texts n seed = chance_texts seed ++ up_to n link_texts ++ up_to n router_texts ++ run_texts ++ report_texts n

-- the bytes of the script
unfoldable pub soak_text : ℕ → ℕ → List ℕ
soak_text n seed = ended (first_line One ∷ soak_texts n seed)
