-- `crc::crc16` meets its contract: the folds over the pairs and over what is left are folds of the definition's steps.
-- Assumes nothing.
use Rattle.std.proofs.Common.{◌∙◌, ap, ◌/◌, ◌*◌, ◌≤◌, length, drop, arith, rules}
use Rattle.std.specs.Simd.{first_chunks}
use Rattle.std.proofs.lemmas.Iterator.{YieldsList-from_slice}
use Rattle.std.proofs.lemmas.Iterator.Consumers.{fold_from_yields_List}
use Rattle.crc.specs.Crc.{byte_in, crc_of}
use Rattle.crc.proofs.Loops.{crc_fold, pair_in, crc_pairs}
use Rattle.crc.proofs.crc16.Goals as goal

pub returns : goal.returns
returns c =
    let xs = c.args.bytes.now in
    let k = length xs / 2 in
    let fits : k * 2 ≤ length xs = omega arith in
    let pairs = fold_from_yields_List {all = first_chunks 2 k xs} _ pair_in c.args.init _ c.fold-c.ensures.ran (YieldsList-from_slice _ cc) (λ a x b q h. search rules) in
    let rest = fold_from_yields_List {all = drop (k * 2) xs} _ byte_in c.fold-c.result _ c.fold.ensures.ran (YieldsList-from_slice _ cc) (λ a x b q h. search rules) in
    rest ∙ crc_fold c.fold-c.result (drop (k * 2) xs) ∙ ap (λ r. crc_of r (drop (k * 2) xs)) pairs ∙ crc_pairs c.args.init k xs fits
