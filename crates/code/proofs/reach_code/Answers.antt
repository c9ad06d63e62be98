-- `code::reach_code` is the table of document 01: the constant passes the test, and past the table all codes are 0.
use Rattle.std.proofs.Common.{sym, List, [], ◌∷◌, ℕ, arith}
use lib.ListN.{replicate}
use Rattle.code.specs.Reach.{reach_code, look_up}
use Rattle.code.proofs.Codes.{code_far}
use Rattle.code.proofs.Table.{table_at}
use Rattle.code.proofs.reach_code.Goals as goal

-- The constant, as the code has it.
abbrev table : List (List ℕ)
table =
    (5 ∷ 4 ∷ 2 ∷ 1 ∷ 0 ∷ 0 ∷ 0 ∷ 0 ∷ 0 ∷ 0 ∷ [])
    ∷ (4 ∷ 4 ∷ 1 ∷ 1 ∷ 0 ∷ 0 ∷ 0 ∷ 0 ∷ 0 ∷ 0 ∷ [])
    ∷ (3 ∷ 1 ∷ 1 ∷ 0 ∷ 0 ∷ 0 ∷ 0 ∷ 0 ∷ 0 ∷ 0 ∷ [])
    ∷ (1 ∷ 1 ∷ 0 ∷ 0 ∷ 0 ∷ 0 ∷ 0 ∷ 0 ∷ 0 ∷ 0 ∷ [])
    ∷ replicate 6 (replicate 10 0)

pub returns-then-b-lt10 : goal.returns-then-b-lt10
unfolding reach_code look_up
returns-then-b-lt10 c = table_at reach_code 10 10 table [] tt c.args.a c.args.b (omega arith) (omega arith)

pub returns-else-a-lt10 : goal.returns-else-a-lt10
returns-else-a-lt10 c = sym (code_far c.args.a c.args.b (λ p q. omega arith))
