use Rattle.std.proofs.Common.{ℕ, ◌-◌, ◌≤◌, vec_items, ap, ◌∙◌, arith, rules}
use Rattle.std.specs.List.{remove}
use Rattle.lines.specs.Held.{plain}
use Rattle.lines.specs.Totals.{kind_count}
use Rattle.filing.specs.Machine.{with_lines, strike_refusal}
use Rattle.filing.specs.Stands.{stands}
use Rattle.filing.proofs.Calls.{as_many, strike_one, changes}
use Rattle.filing.proofs.Counts.{count_removed, plain_removed}
use Rattle.filing.proofs.filing.Filing.strike.Goals as goal

pub invariant_of-self : goal.invariant_of-self
invariant_of-self c =
    let f = c.args.self.now in
    let ls = vec_items f.lines in
    let items = c.remove.ensures.items in
    let fewer : (kind : ℕ) → kind_count kind (plain (vec_items c.remove.new.self)) ≤ kind_count kind (plain ls) =
    λ kind. omega (arith, ap (λ l. kind_count kind (plain l)) items, count_removed kind ls (c.args.number - 1)) in
    record {
      earliest = f.earliest;
      latest = f.latest;
      first = f.first;
      last = f.last;
      few = search rules;
      reserved = search rules;
      concentrations = omega (arith, fewer 5, f.concentrations);
      catastrophes = omega (arith, fewer 18, f.catastrophes);
    }

pub returns-clause-after : goal.returns-clause-after
returns-clause-after c =
    let f = c.args.self.now in
    let st = stands f in
    let number = c.args.number in
    let refusal = strike_one st number (omega arith) (omega (arith, as_many f)) in
    ap (with_lines st) (ap plain c.remove.ensures.items ∙ plain_removed (vec_items f.lines) (number - 1))
    ∙ changes (strike_refusal st number) st (with_lines st (remove st.lines (number - 1))) refusal
