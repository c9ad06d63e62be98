-- Laws of numbers in bytes, most significant byte first (document 02, note 6).
use mathlib.Core.Path.{◌≡◌, refl, ap, ap₂, ◌∙◌}
use mathlib.Core.List.{List, [], ◌∷◌, ◌++◌}
use Prim.Native.Nat.{ℕ, zero, suc, ◌+◌, ◌*◌, ◌/◌, ◌%◌, ◌^◌, ◌<◌, ◌≤◌}
use native.Mathlib.Nat.{pow-suc, div-lt_iff_lt-mul}
use native.Mathlib.Omega.{arith}
use lib.ListN.{length, get_or, take, length-append, get_or-append}
use lib.Seq.{get_or-append-add, get_or_at, get_or-take}
use Rattle.code.specs.Files.{number, bytes_of}

-- A number of two bytes, and one of four by its halves.
pub number_two : (xs : List ℕ) (i : ℕ) → number 2 xs i ≡ get_or xs i 0 * 256 + get_or xs (i + 1) 0
unfolding number
number_two xs i = let first : get_or xs (i + 0) 0 ≡ get_or xs i 0 = ap (λ j. get_or xs j 0) (omega arith) in omega arith

pub number_four : (xs : List ℕ) (i : ℕ) → number 4 xs i ≡ number 2 xs i * 65536 + number 2 xs (i + 2)
unfolding number
number_four xs i =
    let third : get_or xs (i + 2 + 0) 0 ≡ get_or xs (i + 2) 0 = ap (λ j. get_or xs j 0) (omega arith) in
    let fourth : get_or xs (i + 2 + 1) 0 ≡ get_or xs (i + 3) 0 = ap (λ j. get_or xs j 0) (omega arith) in
    omega arith

-- ## Where the bytes stand

-- The same bytes are the same number.
pub number_same : (k : ℕ) (xs ys : List ℕ) (i j : ℕ) → ((m : ℕ) → m < k → get_or xs (i + m) 0 ≡ get_or ys (j + m) 0) → number k xs i ≡ number k ys j
unfolding number
number_same zero xs ys i j same = refl
number_same (suc k) xs ys i j same = ap₂ (λ (a b : ℕ). a * 256 + b) (number_same k xs ys i j (λ m h. same m (omega arith))) (same k (omega arith))

module _ (k : ℕ) (xs : List ℕ) where
  -- In front of other bytes, and behind n of them.
  pub number_front : (ys : List ℕ) (i : ℕ) → i + k ≤ length xs → number k (xs ++ ys) i ≡ number k xs i
  number_front ys i h = number_same k (xs ++ ys) xs i i (λ m l. get_or-append xs ys 0 (i + m) (omega arith))

  pub number_behind : (ys : List ℕ) (n i : ℕ) → length xs ≡ n → number k (xs ++ ys) (n + i) ≡ number k ys i
  number_behind ys n i e = number_same k (xs ++ ys) ys (n + i) i
      (λ m l. ap (λ j. get_or (xs ++ ys) j 0) (omega arith) ∙ get_or-append-add xs ys (i + m) 0)

  -- In the first n bytes.
  pub number_take : (n i : ℕ) → i + k ≤ n → number k (take n xs) i ≡ number k xs i
  number_take n i h = number_same k (take n xs) xs i i (λ m l. get_or-take n xs (i + m) 0 (omega arith))

-- ## The bytes of a number

-- They are as many as asked for,
pub length_bytes : (k x : ℕ) → length (bytes_of k x) ≡ k
unfolding bytes_of
length_bytes zero x = refl
length_bytes (suc k) x = omega (arith, length-append (bytes_of k (x / 256)) (x % 256 ∷ []), length_bytes k (x / 256))

-- and they have the number, where it is not too large for them.
pub number_bytes : (k x : ℕ) → x < 256 ^ k → number k (bytes_of k x) 0 ≡ x
unfolding number bytes_of
number_bytes zero x h = omega arith
number_bytes (suc k) x h =
    let high = bytes_of k (x / 256) in
    let size : length high ≡ k = length_bytes k (x / 256) in
    let small : x / 256 < 256 ^ k = (div-lt_iff_lt-mul {k = 256} (omega arith)).1 (omega (arith, pow-suc 256 k)) in
    let first = number_front k high (x % 256 ∷ []) 0 (omega arith) ∙ number_bytes k (x / 256) small in
    let last : get_or (high ++ (x % 256 ∷ [])) (0 + k) 0 ≡ x % 256 = get_or_at high (x % 256) [] 0 (0 + k) (omega arith) in
    omega (arith, first, last)
