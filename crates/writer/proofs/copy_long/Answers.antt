use Rattle.std.proofs.Common.{◌≡◌, List, ℕ, ◌+◌, ◌*◌, ◌-◌, ◌++◌, ◌≤◌, ◌∙◌, sym, length, take, drop, arith, length-drop}
use Rattle.std.proofs.lemmas.List.{length-take-le, take-append-drop}
use Rattle.std.proofs.Math.Seq.{take-append_seam, take-append-add}
use borrow.Rule.Slice.PartMut.{put_mid, post_of, same_len_mid}
use Rattle.writer.proofs.copy_long.Goals as goal

-- The next n cells are the source's.
copied_more : (s out part : List ℕ) (at n k : ℕ) → k ≡ n → length out ≡ length s → at + n ≤ length s → take at out ≡ take at s → part ≡ take k (drop at s) →
    (length (put_mid at k out part) ≡ length s) × (take (at + n) (put_mid at k out part) ≡ take (at + n) s)
copied_more s out part at n k e size inside t p = rw (p, e)
    (same_len_mid at n out next (here ∙ sym there) ∙ size, let a = rw before at written in let b = rw (until, take-append-drop at s) at whole in let c = rw here at (take-append_seam next rest) in cc)
  where
    next : List ℕ
    next = take n (drop at s)

    rest : List ℕ
    rest = post_of at n out

    here : length next ≡ n
    here = length-take-le n (drop at s) (omega (arith, length-drop at s))

    there : length (take n (drop at out)) ≡ n
    there = length-take-le n (drop at out) (omega (arith, length-drop at out))

    before : length (take at out) ≡ at
    before = length-take-le at out (omega arith)

    until : length (take at s) ≡ at
    until = length-take-le at s (omega arith)

    written : take (length (take at out) + n) (take at out ++ (next ++ rest)) ≡ take at out ++ take n (next ++ rest)
    written = take-append-add (take at out) (next ++ rest) n

    whole : take (length (take at s) + n) (take at s ++ drop at s) ≡ take at s ++ take n (drop at s)
    whole = take-append-add (take at s) (drop at s) n

pub loop-k-preserved : goal.loop-k-preserved
loop-k-preserved c =
    let l = c.loop-k in
    let at : ℕ = 4096 * l.k in
    let m = copied_more c.args.source.now l.out c.copy_from_slice-in-loop-k.new.self at 4096 (at + 4096 - at) (omega arith) l.invariant.0 (omega arith) l.invariant.1
    (c.copy_from_slice-in-loop-k.ensures.after ∙ c.copy_from_slice.ensures.after) in
    let e : 4096 * (l.k + 1) ≡ at + 4096 = omega arith in
    rw e m
