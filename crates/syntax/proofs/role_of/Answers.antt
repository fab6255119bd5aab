-- `syntax::role_of` meets its contract: each arm is an entry of the table, and the last stands past its end, or at 0.
-- Assumes nothing.
use mathlib.Core.Path.{◌≡◌}
use Prim.Native.Nat.{◌/◌, ◌%◌, ◌≤◌, ◌<◌}
use mathlib.Core.Logic.{⊎_elim}
use lib.ListN.{get_or-eq_default}
use Rattle.syntax.specs.declared.Role.TheVariants.{Plain}
use Rattle.syntax.specs.Elements.{roles}
use Rattle.syntax.proofs.Roles.{up}
use Rattle.syntax.proofs.Bools.{lt_or_ge}
use native.Mathlib.Omega.{arith}
use Rattle.syntax.proofs.role_of.Goals as goal

pub returns-in_default : goal.returns-in_default
returns-in_default c =
    let w = c.args.w in
    let n = w % 32 in
    ⊎_elim
    (λ (l : n < 1). let z : n ≡ 0 = omega arith in rw z)
    (λ (g1 : 1 ≤ n).
    let g2 = up 1 n g1 c.in_default.in_default-own.rest.0.0.0.0.0.0.0.0.0.0.0.0.0.0.0.0.0.0.0.1 in
    let g3 = up 2 n g2 c.in_default.in_default-own.rest.0.0.0.0.0.0.0.0.0.0.0.0.0.0.0.0.0.0.1 in
    let g4 = up 3 n g3 c.in_default.in_default-own.rest.0.0.0.0.0.0.0.0.0.0.0.0.0.0.0.0.0.1 in
    let g5 = up 4 n g4 c.in_default.in_default-own.rest.0.0.0.0.0.0.0.0.0.0.0.0.0.0.0.0.1 in
    let g6 = up 5 n g5 c.in_default.in_default-own.rest.0.0.0.0.0.0.0.0.0.0.0.0.0.0.0.1 in
    let g7 = up 6 n g6 c.in_default.in_default-own.rest.0.0.0.0.0.0.0.0.0.0.0.0.0.0.1 in
    let g8 = up 7 n g7 c.in_default.in_default-own.rest.0.0.0.0.0.0.0.0.0.0.0.0.0.1 in
    let g9 = up 8 n g8 c.in_default.in_default-own.rest.0.0.0.0.0.0.0.0.0.0.0.0.1 in
    let g10 = up 9 n g9 c.in_default.in_default-own.rest.0.0.0.0.0.0.0.0.0.0.0.1 in
    let g11 = up 10 n g10 c.in_default.in_default-own.rest.0.0.0.0.0.0.0.0.0.0.1 in
    let g12 = up 11 n g11 c.in_default.in_default-own.rest.0.0.0.0.0.0.0.0.0.1 in
    let g13 = up 12 n g12 c.in_default.in_default-own.rest.0.0.0.0.0.0.0.0.1 in
    let g14 = up 13 n g13 c.in_default.in_default-own.rest.0.0.0.0.0.0.0.1 in
    let g15 = up 14 n g14 c.in_default.in_default-own.rest.0.0.0.0.0.0.1 in
    let g16 = up 15 n g15 c.in_default.in_default-own.rest.0.0.0.0.0.1 in
    let g17 = up 16 n g16 c.in_default.in_default-own.rest.0.0.0.0.1 in
    let g18 = up 17 n g17 c.in_default.in_default-own.rest.0.0.0.1 in
    let g19 = up 18 n g18 c.in_default.in_default-own.rest.0.0.1 in
    let g20 = up 19 n g19 c.in_default.in_default-own.rest.0.1 in
    let g21 = up 20 n g20 c.in_default.in_default-own.rest.1 in
    rw (get_or-eq_default (roles (w / 32 % 256)) Plain g21))
    (lt_or_ge n 1)
