use mathlib.Core.Path.{◌∙◌}
use Rattle.code.specs.Files.{bytes_of}
use Rattle.writer.proofs.Bytes.{two_bytes}
use Rattle.writer.proofs.Filing.{file_put}
use Rattle.writer.proofs.put_file.Goals as goal

pub returns : goal.returns
returns c =
    let a = c.args in
    let number = ◌∙◌ {c = bytes_of 2 a.count} c.copy_from_slice.ensures.after (rw c.to_be_bytes.ensures (two_bytes a.count)) in
    rw (c.directory_size-first.ensures, number, c.copy_long.ensures, c.put_directory.ensures)
    (file_put a.count a.entries.now a.out.now c.requires.out_len c.requires.passed)
