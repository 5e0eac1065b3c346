-- Words for homes that are written out.
use Rattle.std.specs.Prelude.{ℕ, ◌+◌, ◌*◌, ◌^◌, true, false, Option, List}
use Rattle.hn_base.specs.Prefix.{PlainPrefix}
use Rattle.hn_sound.specs.Home.{Home, Endpoint, Held}

-- 2001:db8::/48, and 2001:db8::/56 inside it
abbrev pub wide : PlainPrefix
wide = record { bits = 0x20010db8_00000000_00000000_00000000; len = 48 }

abbrev pub delegated : PlainPrefix
delegated = record { bits = 0x20010db8_00000000_00000000_00000000; len = 56 }

-- 2001:db8:0:n::/64, which is inside both where n is below 256, and inside the first alone where n is more
abbrev pub subnet : ℕ → PlainPrefix
subnet n = record { bits = 0x20010db8_00000000_00000000_00000000 + n * 2 ^ 64; len = 64 }

-- an endpoint of a router, on a link
abbrev pub endpoint : ℕ → ℕ → ℕ → Endpoint
endpoint node id link = record { node = record { 0 = node }; id = record { 0 = id }; link = link }

-- what an endpoint has for a delegated prefix: the prefix, and the priority where it is published
abbrev pub has : Endpoint → PlainPrefix → PlainPrefix → Option ℕ → Held
has e d prefix published = record {
  node = e.node;
  assigned = record {
    delegated = d;
    endpoint = e.id;
    prefix = prefix;
    published = published;
    since = 0;
    applied = false;
  };
}

-- a home in which each router wants each used prefix, and each endpoint a prefix of length 64
abbrev pub home_of : List Endpoint → List PlainPrefix → List Held → Home
home_of endpoints used assignments = record {
  endpoints = endpoints;
  length = λ e. 64;
  used = used;
  wants = λ node d. true;
  assignments = assignments;
}
