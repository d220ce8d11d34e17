use Rattle.std.proofs.Common.{◌≡◌, ◌-◌, get_or, Ok, Err, sym, ap, subst, ◌∙◌, arith, rules}
use Rattle.roots.specs.declared.table.TableFault.{TableFault}
use Rattle.roots.specs.Answers.{TableMade}
use Rattle.roots.specs.Held.{members_of}
use Rattle.tables.specs.Faults.{shown, of_table}
use Rattle.tables.specs.Replacing.{told, answer}
use Rattle.tables.specs.Sizes.{sizes}
use Rattle.tables.specs.Standing.{entries}
use Rattle.tables.proofs.Replaced.{found, sizes_kept, refuses, accepts, stands, stays}
use Rattle.tables.proofs.tables.Tables.replace.Goals as goal

pub returns-in_err-new : goal.returns-in_err-new
returns-in_err-new c =
    let ts = c.args.self.now in
    let table = c.args.table in
    let given = c.args.given.now in
    let which : c.try_from.result ≡ Ok c.in_ok-which.which = search rules in
    let f = found ts table c.place-place.result _ c.in_ok-which.which _ c.index-self-place.result (sym which ∙ c.try_from.ensures) c.place-place.ensures.value c.place-place.ensures.inside c.size.ensures in
    let wrong : (e : TableFault) × (c.from_upper.result ≡ Err e) × (c.in_err-new.field-0.0 ≡ of_table table e) = search rules in
    let gave : c.from_residual-in_err-new.result ≡ Err c.in_err-new.field-0.0 = search rules in
    let refusal = refuses table (members_of c.size.result) given f.members wrong.0 (subst (TableMade (members_of c.size.result) given) wrong.1 c.from_upper.ensures) in
    record {
      answer = ap told gave ∙ ap (λ e. Err (shown e)) wrong.2 ∙ sym (ap answer refusal);
      after = stays (entries ts) table given _ refusal;
    }

pub invariant_of-self : goal.invariant_of-self
invariant_of-self c =
    let ts = c.args.self.now in
    let which : c.try_from.result ≡ Ok c.in_ok-which.which = search rules in
    let f = found ts c.args.table c.place-place.result _ c.in_ok-which.which _ c.index-self-place.result (sym which ∙ c.try_from.ensures) c.place-place.ensures.value c.place-place.ensures.inside c.size.ensures in
    let new : c.from_upper.result ≡ Ok c.in_ok-new.new = search rules in
    let made = subst (TableMade (members_of c.size.result) c.args.given.now) new c.from_upper.ensures in
    let place : c.place-place.result ≡ c.args.table - 1 = omega (arith, f.at) in
    (sizes_kept ts c.place-place.result c.in_ok-new.new (made.1 ∙ f.sized ∙ ap (λ i. get_or sizes i 0) (sym place)), tt)

pub returns : goal.returns
returns c =
    let ts = c.args.self.now in
    let table = c.args.table in
    let given = c.args.given.now in
    let which : c.try_from.result ≡ Ok c.in_ok-which.which = search rules in
    let f = found ts table c.place-place.result _ c.in_ok-which.which _ c.index-self-place.result (sym which ∙ c.try_from.ensures) c.place-place.ensures.value c.place-place.ensures.inside c.size.ensures in
    let new : c.from_upper.result ≡ Ok c.in_ok-new.new = search rules in
    let made = subst (TableMade (members_of c.size.result) given) new c.from_upper.ensures in
    record {
      answer = sym (ap answer (accepts table _ given f.members made.0));
      after = stands table _ given f.members ts c.place-place.result c.in_ok-new.new f.at f.sized made.0 made.2;
    }
