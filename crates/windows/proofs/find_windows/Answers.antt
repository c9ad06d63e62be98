-- `find_windows`: the joined words are the windows of the copied ones.
use Rattle.code.specs.Sizes.{shape}
use Rattle.windows.proofs.Coding.{windows_found}
use Rattle.windows.proofs.find_windows.Goals as goal

pub returns : goal.returns
returns c = windows_found (shape c.args.z) _ _ c.requires.words_len (rw c.copy_from_slice.ensures.after at c.join_windows.ensures) _ c.all_coded.ensures
