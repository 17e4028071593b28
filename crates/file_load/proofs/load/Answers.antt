-- Each return is a step of `proofs/Loading`.
use Rattle.std.proofs.Common.{◌≡◌, arith, length, replicate, refl}
use Rattle.std.proofs.lemmas.Grind.{common_steps}
use Rattle.std.proofs.lemmas.Result.{err_from_is_err_and}
use Rattle.file_load.proofs.Loading.{load_scan, load_full, load_broken, load_right}
use Rattle.file_load.proofs.load.Goals as goal

pub returns-in_err-counts : goal.returns-in_err-counts
returns-in_err-counts c =
    let p = err_from_is_err_and c.from_residual.result c.from_residual.ensures.1 in
    rw (p.1, p.2) (load_scan _ _ _ _ _ _ _ c.in_err-counts.ensures)

pub returns-then-not-room : goal.returns-then-not-room
returns-then-not-room c = load_full _ _ _ _ _ _ _ c.in_ok-counts.ensures c.room.ensures c.if-not-room.true

pub returns-in-Ok : goal.returns-in-Ok
returns-in-Ok c =
    let cleared : c.fill.new.self ≡ replicate (length c.args.pieces.now) 0 = grind (arith, common_steps) in
    load_right _ _ _ _ _ _ _ c.in_ok-counts.ensures c.room.ensures c.if-not-room.false c.in-Ok.ensures refl cleared

pub returns-in-Err : goal.returns-in-Err
returns-in-Err c =
    let kept = c.build-built.auto in
    let cleared : c.fill.new.self ≡ replicate (length c.args.pieces.now) 0 = grind (arith, common_steps) in
    load_broken _ _ _ _ _ _ _ c.in_ok-counts.ensures c.room.ensures c.if-not-room.false c.in-Err.ensures c.in-Err.refusal refl cleared c.zero_all.ensures kept.blocks kept.store kept.nodes kept.entries
