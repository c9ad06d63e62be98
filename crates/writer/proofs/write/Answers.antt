-- `write`: a refusal of the entries' checks, 11, or the file.
use Rattle.std.proofs.lemmas.Result.{err_from_is_err_and}
use borrow.Author.Rules.{rules}
use Rattle.writer.proofs.Answering.{entries_passed, not_written, not_fitted, file_written}
use Rattle.writer.proofs.write.Goals as goal

pub returns-in_err-check_entries : goal.returns-in_err-check_entries
returns-in_err-check_entries c =
    let p = err_from_is_err_and c.from_residual.result c.from_residual.ensures.1 in
    rw (p.1, p.2) (not_written _ _ _ _ c.in_err-check_entries.ensures)

pub returns-then-not-fits : goal.returns-then-not-fits
returns-then-not-fits c = not_fitted _ _ _ (entries_passed _ _ c.in_ok-check_entries.ensures) (search rules)

pub put_file-requires-clause-passed : goal.put_file-requires-clause-passed
put_file-requires-clause-passed c = entries_passed _ _ c.in_ok-check_entries.ensures

pub returns : goal.returns
returns c =
    rw c.directory_size.ensures (file_written _ _ _ (entries_passed _ _ c.in_ok-check_entries.ensures) (search rules) _ c.put_file.ensures)
