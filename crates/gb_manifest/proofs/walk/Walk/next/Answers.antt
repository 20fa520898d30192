use Rattle.std.proofs.Common.{◌≡◌, ◌≢◌, length, refl, rules, arith, subst, sym, tests}
use Rattle.gb_manifest.specs.Walks.{FrontIs}
use Rattle.gb_manifest.proofs.Walks.{front_sound, length-none, length-some}
use Rattle.gb_manifest.proofs.Walks.{walk_from-empty}
use Rattle.gb_manifest.proofs.walk.Walk.next.Goals as goal

pub returns-then-is_done-clause-next : goal.returns-then-is_done-clause-next
returns-then-is_done-clause-next c =
    let none : length c.args.self.now.rest.now ≡ 0 = search (rules, tests) in
    (walk_from-empty _ _ (length-none _ none), refl)

pub read_u16-size-requires : goal.read_u16-size-requires
read_u16-size-requires c =
    let some : length c.args.self.now.rest.now ≢ 0 = search (rules, tests) in
    let front = front_sound _ _ (length-some _ some) c.requires in
    omega (arith, front.eight, front.within)

pub pass-requires : goal.pass-requires
pass-requires c =
    let some : length c.args.self.now.rest.now ≢ 0 = search (rules, tests) in
    subst (λ n. FrontIs c.args.self.now.at c.args.self.now.rest.now n)
    (sym c.read_u16-size.ensures) (front_sound _ _ (length-some _ some) c.requires)
