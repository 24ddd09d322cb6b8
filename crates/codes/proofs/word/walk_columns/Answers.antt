-- `codes::word::walk_columns` meets its contract.
use Rattle.std.proofs.Common.{◌≡◌, suc, ◌-◌, ◌≤◌, length, drop, lt_of_lt_of_le, arith, length-drop, pow_mono}
use Rattle.codes.specs.Projection.{size}
use Rattle.codes.specs.Codes.{projection}
use Rattle.codes.specs.ContractsOfWalk.{held, Collected}
use Rattle.codes.proofs.Codes.{size_le}
use Rattle.codes.proofs.Walks.{parities_lt, length_held, held_at}
use Rattle.codes.proofs.word.walk_columns.Goals as goal

pub with_column-walk-requires : goal.with_column-walk-requires
with_column-walk-requires c =
    let l = c.loop-i in
    let π = projection c.args.code in
    let cs = held π c.args.columns in
    let short : length (drop l.i cs) ≤ 63 =
    omega (arith, length-drop l.i cs, length_held π c.args.columns (omega (arith, size_le c.args.code)), size_le c.args.code) in
    (omega arith, lt_of_lt_of_le (parities_lt l.invariant) (pow_mono {i = length (drop l.i cs)} {j = 63} short))

pub loop-i-preserved : goal.loop-i-preserved
loop-i-preserved c =
    let l = c.loop-i in
    let a = c.args.columns in
    let π = projection c.args.code in
    let room : size π ≤ length a = omega (arith, size_le c.args.code) in
    let next : suc (l.i - 1) ≡ l.i = omega arith in
    let behind : Collected π.rows (drop (suc (l.i - 1)) π.matrix) (drop (suc (l.i - 1)) (held π a)) l.walk = rw next l.invariant in
    c.with_column-walk.ensures (held π a) (length_held π a room) (held_at π a room (l.i - 1)) behind

pub returns : goal.returns
returns c =
    let l = c.loop-i in
    let first : l.i ≡ 0 = omega arith in
    rw (first) at l.invariant
