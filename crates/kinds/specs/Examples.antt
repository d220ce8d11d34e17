-- Rows worked by hand, which the definitions give. Assumes nothing.
use Rattle.std.specs.Prelude.{◌≡◌, ℕ, ◌*◌, cond, List, [], ◌∷◌, ◌==◌}
use Rattle.roots.specs.Form.{form}
use Rattle.roots.specs.Root.{lower, upper}
use Rattle.charges.specs.Formula.{minimum}
use Rattle.choice.specs.Beside.{beside}
use Rattle.charges.specs.Meaning.{Meaning, means, module_of}
use Rattle.lines.specs.declared.fields.Fields.{Fields}
use Rattle.kinds.specs.Exact.{exactly, interest, global_equity, other_equity, spread, currency}

abbrev line : ℕ → ℕ → ℕ → ℕ → ℕ → Fields
line k c r f s = record { kind = k; class = c; rate = r; first = f; second = s }

-- the low and the high of a charge
abbrev gives : Meaning → ℕ → ℕ → Type 0
gives m low high = (m.D 1 ≡ low) × (m.U 1 ≡ high)

-- the same entry between all members
abbrev evenly : ℕ → ℕ → ℕ → ℕ
evenly entry r c = cond (r == c) 100 entry

-- the members 3 and 4 in a unit k times finer
abbrev three_four : ℕ → ℕ → ℕ → ℕ → Type 0
three_four entry k low high = (lower (form (evenly entry) (k * 3 ∷ k * 4 ∷ [])) ≡ low) × (upper (form (evenly entry) (k * 3 ∷ k * 4 ∷ [])) ≡ high)

abbrev equities : List Fields
equities = line 2 1 0 100 0 ∷ line 2 2 0 100 0 ∷ []

pub record Examples : Type 0 where
  pub apart : three_four 0 1 5 5
  pub a_quarter : three_four 25 1 5 6
  pub together : three_four 100 1 7 7
  pub ten_times_finer : three_four 25 10 55 56
  pub equity : gives (module_of (evenly 75) (exactly 1 global_equity equities ∷ exactly 1 other_equity equities ∷ [])) 72 73
  pub spread_a : gives (exactly 1 spread (line 4 3 500 1000 0 ∷ [])) 51 52
  pub spread_bb : gives (exactly 1 spread (line 4 5 900 1000 0 ∷ [])) 271 272
  pub spread_bb_at_its_cap : gives (exactly 1 spread (line 4 5 800 1000 0 ∷ [])) 271 272
  pub spread_bb_below : gives (exactly 1 spread (line 4 5 799 1000 0 ∷ [])) 270 271
  pub interest_up_and_down : gives (exactly 0 interest (line 1 1 0 1000 940 ∷ line 1 3 0 800 770 ∷ line 1 2 0 1000 1050 ∷ line 1 4 0 800 840 ∷ [])) 30 30
  pub currency_short : gives (exactly 1 currency (line 6 1 0 100 0 ∷ line 6 2 0 130 0 ∷ [])) 6 6
  -- an SCR of 30,001 and 30,002 without life lines
  pub least_of_a_third : gives (minimum (beside []) (means (λ k. 30001) (λ k. 30002) 1 [])) 10000 10001
