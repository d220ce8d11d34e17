use Rattle.std.proofs.Common.{◌≡◌, ℕ, ◌+◌, ◌*◌, ◌<◌, ◌≤◌, ◌≢◌, arith}
use Rattle.roots.specs.Root.{lower, upper}
use Rattle.roots.proofs.RootLaws.{lower_le, lower_unique, upper_exact, upper_inexact, roots_of_all}
use Rattle.roots.proofs.root.roots.Goals as goal
use Rattle.roots.proofs.root.roots.Goals.{then-low-form, else-low-form}

exact : (f n : ℕ) → n ≡ lower f → f ≤ 100 * (n * n) → n ≡ upper f
exact f n e h =
    let k : f ≤ 100 * (lower f * lower f) = rw e at h in
    let l = lower_le f in
    omega (arith, upper_exact f (omega arith))

inexact : (f n : ℕ) → n ≡ lower f → 100 * (n * n) < f → n + 1 ≡ upper f
inexact f n e h =
    let k : 100 * (lower f * lower f) < f = rw e at h in
    let ne : 100 * (lower f * lower f) ≢ f = omega arith in
    omega (arith, upper_inexact f ne)

pub returns : goal.returns
returns c =
    let root = c.isqrt-low.ensures in
    let low : c.isqrt-low.result ≡ lower c.args.form = lower_unique c.args.form c.isqrt-low.result (omega arith) (omega arith) in
    let high : c.if-low-form.high ≡ upper c.args.form =
    elim c.if-low-form.branch [ then-low-form w ↦ rw w.high-is (inexact _ _ low w.if-low-form.true) | else-low-form w ↦ rw w.high-is (exact _ _ low w.if-low-form.false) ]
    in
    record { value = cc; lawful = roots_of_all }
