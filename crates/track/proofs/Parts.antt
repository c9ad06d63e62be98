-- A part of a list, from a to a + l, that is lent and comes back.
use mathlib.Core.Path.{◌≡◌, sym, ap, ◌∙◌}
use mathlib.Core.Logic.{by_cases}
use mathlib.Core.List.{List, ◌++◌}
use Prim.Native.Nat.{ℕ, ◌+◌, ◌-◌, ◌<◌, ◌≤◌}
use native.Mathlib.Decide.{dec_lt}
use native.Mathlib.Omega.{arith}
use borrow.Rule.Slice.PartMut.{put_mid, post_of, take_put, drop_put, mid_len, same_len_mid}
use lib.ListN.{length, get_or, take, drop, get_or-append}
use lib.Seq.{get_or-take, get_or-drop, length-take-le, get_or-append-add, ext_get_or}

-- A part's cells.
pub part_at : (xs : List ℕ) (a k m : ℕ) → m < k → get_or (take k (drop a xs)) m 0 ≡ get_or xs (a + m) 0
part_at xs a k m h = get_or-take k (drop a xs) m 0 h ∙ get_or-drop a xs m 0

-- A part that came back: what stands before it, in it and after it.
module _ (xs ys : List ℕ) (a l : ℕ) (room : a + l ≤ length xs) (size : length ys ≡ a + l - a) where
  abbrev new : List ℕ
  new = put_mid a (a + l - a) xs ys

  pub put_before : (i : ℕ) → i < a → get_or new i 0 ≡ get_or xs i 0
  put_before i h = sym (get_or-take a new i 0 h) ∙ ap (λ zs. get_or zs i 0) (take_put a (a + l - a) xs ys (omega arith)) ∙ get_or-take a xs i 0 h

  pub put_in : (m : ℕ) → m < l → get_or new (a + m) 0 ≡ get_or ys m 0
  put_in m h =
      ap (λ n. get_or new (n + m) 0) (sym (length-take-le a xs (omega arith)))
      ∙ get_or-append-add (take a xs) (ys ++ post_of a (a + l - a) xs) m 0 ∙ get_or-append ys (post_of a (a + l - a) xs) 0 m (omega arith)

  pub put_after : (i : ℕ) → a + l ≤ i → get_or new i 0 ≡ get_or xs i 0
  put_after i h = rw e (sym (get_or-drop (a + l) new (i - (a + l)) 0) ∙ ap (λ zs. get_or zs (i - (a + l)) 0) (drop_put a (a + l) xs ys (omega arith) room size) ∙ get_or-drop (a + l) xs (i - (a + l)) 0)
    where
      e : i ≡ a + l + (i - (a + l))
      e = omega arith

-- A part that came back makes the list that it fits.
pub put_list : (xs ys zs : List ℕ) (a l : ℕ) → a + l ≤ length xs → length ys ≡ a + l - a → length zs ≡ length xs →
    ((i : ℕ) → i < a → get_or xs i 0 ≡ get_or zs i 0) → ((m : ℕ) → m < l → get_or ys m 0 ≡ get_or zs (a + m) 0) → ((i : ℕ) → a + l ≤ i → get_or xs i 0 ≡ get_or zs i 0) →
    put_mid a (a + l - a) xs ys ≡ zs
put_list xs ys zs a l room size len before here after = ext_get_or 0 (put_mid a (a + l - a) xs ys) zs (same_len_mid a (a + l - a) xs ys (size ∙ sym (mid_len a (a + l) xs room)) ∙ sym len)
    (λ i h. by_cases (dec_lt i a)
    (λ b. put_before xs ys a l room size i b ∙ before i b)
    (λ b. by_cases (dec_lt i (a + l))
    (λ c. let e : a + (i - a) ≡ i = omega arith in rw e at (put_in xs ys a l room size (i - a) (omega arith) ∙ here (i - a) (omega arith)))
    (λ c. put_after xs ys a l room size i (omega arith) ∙ after i (omega arith))))
