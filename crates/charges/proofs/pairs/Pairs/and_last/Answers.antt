use Rattle.std.proofs.Common.{◌≡◌, ℕ, List, [], ◌∷◌, ◌++◌, length, take, set, sym, ◌∙◌, ap₂, arith}
use Rattle.std.proofs.lemmas.List.{set_split, drop_all}
use Rattle.charges.proofs.PairLists.{held_length}
use Rattle.charges.proofs.pairs.Pairs.and_last.Goals as goal

closed : (ps : List (ℕ × ℕ)) (n : ℕ) (p : ℕ × ℕ) → length ps ≡ 28 → n ≡ 27 → set ps 27 p ≡ take n ps ++ (p ∷ [])
closed ps n p long e =
    set_split ps 27 p (omega arith) ∙ ap₂ (λ k (rest : List (ℕ × ℕ)). take k ps ++ (p ∷ rest)) (sym e) (drop_all 28 ps (omega arith))

pub returns : goal.returns
returns c = closed c.args.self.now.values c.args.self.now.len c.args.last c.args.self.now.full (sym (held_length c.args.self.now) ∙ c.requires)
