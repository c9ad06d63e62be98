use Rattle.writer.proofs.Bytes.{place_bytes}
use Rattle.writer.proofs.put_place.Goals as goal

pub returns : goal.returns
returns c =
    let a = c.args in
    rw (c.copy_from_slice.ensures.after, c.copy_from_slice-2.ensures.after, c.to_be_bytes.ensures, c.to_be_bytes-2.ensures) (place_bytes a.place.now a.offset a.size c.requires)
