-- The constant table of tables is the table of document 01, by one test that antt computes.
use mathlib.Core.Path.{◌≡◌, sym, ap, ◌∙◌}
use mathlib.Core.Bool.{Bool, true, false, ◌&&◌}
use mathlib.Core.List.{List, [], ◌∷◌}
use Prim.Native.Nat.{ℕ, zero, suc, ◌+◌, ◌<◌}
use native.Mathlib.Nat.{add-zero, zero-add, add-suc, suc-add, le_of_suc-le-suc, not-suc-le-zero}
use native.Mathlib.Omega.{arith}
use lib.Dec.{T, eqb, eqb→eq}
use lib.ListN.{length, get_or}

pub and_left : (a b : Bool) → T (a && b) → T a
and_left true b t = tt
and_left false b t = t

pub and_right : (a b : Bool) → T (a && b) → T b
and_right true b t = t
and_right false b t = absurd t

-- The row holds f i, f (i + 1), …
abbrev pub row : (ℕ → ℕ) → ℕ → List ℕ → Bool
row f i [] = true
row f i (x ∷ xs) = eqb x (f i) && row f (suc i) xs

row_at : (f : ℕ → ℕ) (xs : List ℕ) (i : ℕ) → T (row f i xs) → (k : ℕ) → k < length xs → get_or xs k 0 ≡ f (i + k)
row_at f [] i t k h = absurd (not-suc-le-zero h)
row_at f (x ∷ xs) i t zero h = eqb→eq x (f i) (and_left (eqb x (f i)) _ t) ∙ ap f (sym (add-zero i))
row_at f (x ∷ xs) i t (suc k) h =
    row_at f xs (suc i) (and_right (eqb x (f i)) _ t) k (le_of_suc-le-suc h) ∙ ap f (suc-add i k ∙ sym (add-suc i k))

-- Each of n rows is w long, and row i holds f i 0, f i 1, …
abbrev pub rows : (ℕ → ℕ → ℕ) → ℕ → ℕ → ℕ → List (List ℕ) → Bool
rows f n w i [] = eqb i n
rows f n w i (xs ∷ xss) = (eqb (length xs) w && row (f i) 0 xs) && rows f n w (suc i) xss

rows_at : (f : ℕ → ℕ → ℕ) (n w : ℕ) (xss : List (List ℕ)) (d : List ℕ) (i : ℕ) → T (rows f n w i xss) →
    (a b : ℕ) → i + a < n → b < w → get_or (get_or xss a d) b 0 ≡ f (i + a) b
rows_at f n w [] d i t a b h l = let e : i ≡ n = eqb→eq i n t in absurd (omega arith)
rows_at f n w (xs ∷ xss) d i t zero b h l =
    let here : T (eqb (length xs) w && row (f i) 0 xs) = and_left (eqb (length xs) w && row (f i) 0 xs) _ t in
    let long : length xs ≡ w = eqb→eq (length xs) w (and_left (eqb (length xs) w) _ here) in
    rw (add-zero) (row_at (f i) xs 0 (and_right (eqb (length xs) w) _ here) b (omega arith) ∙ ap (f i) (zero-add b))
rows_at f n w (xs ∷ xss) d i t (suc a) b h l =
    rw (add-suc, ← suc-add)
    (rows_at f n w xss d (suc i) (and_right (eqb (length xs) w && row (f i) 0 xs) _ t) a b (omega arith) l)

-- A table of tables that passes the test follows f at every entry.
pub table_at : (f : ℕ → ℕ → ℕ) (n w : ℕ) (xss : List (List ℕ)) (d : List ℕ) → T (rows f n w 0 xss) →
    (a b : ℕ) → a < n → b < w → get_or (get_or xss a d) b 0 ≡ f a b
table_at f n w xss d t a b h l = rows_at f n w xss d 0 t a b (omega arith) l ∙ ap (λ (k : ℕ). f k b) (zero-add a)
