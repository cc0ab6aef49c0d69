-- The first file of a name among all is the first among those that are left.
use Rattle.std.proofs.Common.{◌∙◌, refl, sym, arith}
use Rattle.acc_io.proofs.FilesLemmas.{file_of-pass, file_of-here, file_of-end}
use Rattle.acc_io.proofs.place.first_of.Goals as goal

pub loop-file-init : goal.loop-file-init
loop-file-init c = refl

pub loop-file-preserved : goal.loop-file-preserved
loop-file-preserved c =
    c.loop-file.invariant
    ∙ file_of-pass c.args.files.now c.args.name.now c.loop-file.file c.index-files-file.result (omega arith)
    c.index-files-file.is
    (let other = sym c.eq.ensures ∙ c.if-eq.false in rw c.as_str.ensures.value at other)

pub returns-then-eq-clause-found : goal.returns-then-eq-clause-found
returns-then-eq-clause-found c =
    c.loop-file.invariant
    ∙ file_of-here c.args.files.now c.args.name.now c.loop-file.file c.index-files-file.result
    (record { file = c.loop-file.file; at = 0 })
    (omega arith) c.index-files-file.is
    (let same = sym c.eq.ensures ∙ c.if-eq.true in rw c.as_str.ensures.value at same)
    refl

pub returns-clause-found : goal.returns-clause-found
returns-clause-found c =
    c.loop-file.invariant ∙ file_of-end c.args.files.now c.args.name.now c.loop-file.file (omega arith)
