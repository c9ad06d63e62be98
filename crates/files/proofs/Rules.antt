-- The entries of a file, one after another.
use mathlib.Core.Logic.{by_cases}
use mathlib.Core.List.{List}
use Prim.Native.Nat.{ℕ, ◌+◌, ◌<◌, ◌≤◌}
use native.Mathlib.Decide.{ℕ_discrete}
use native.Mathlib.Omega.{arith}
use borrow.Author.Count.{below_more}
use lib.ListN.{length}
use Rattle.code.specs.Files.{entry_count, directory_size, entry_end, most_bytes, most_entries, Cartridge}
use Rattle.files.specs.Steps.{EntryRight, IsEnd, Chained}

module _ (file : List ℕ) (i end : ℕ) (c : Chained file i end) where
  -- The next entry follows the rules.
  pub chained_more : (next : ℕ) → IsEnd file end i next → Chained file (i + 1) next
  chained_more next h = let record { right = r; ends = e } = h in record {
    directory = omega (arith, c.directory, r.after);
    right = below_more (EntryRight file (directory_size (entry_count file))) i c.right
        (record { after = omega (arith, c.directory, r.after); within = r.within; entry = r.entry });
    apart = λ j k l m. by_cases (ℕ_discrete k i)
        (λ same. rw same (omega (arith, c.ends j (omega (arith, l, same)), r.after)))
        (λ d. c.apart j k l (omega arith));
    ends = below_more (λ j. entry_end file j ≤ next) i (λ j l. omega (arith, c.ends j l, r.after)) (omega arith);
    next = λ f l. omega (arith, e, f.apart i (i + 1) (omega arith) l);
  }

  -- It breaks a rule, and so does the file.
  pub chained_wrong : (from : ℕ) → ¬ EntryRight file from i → from ≤ end → i < entry_count file → ¬ Cartridge file
  chained_wrong from w sooner l f = w (record { after = omega (arith, c.next f l); within = f.within i l; entry = f.entries i l })

  -- There is none left.
  pub chained_all : entry_count file ≤ i → length file ≤ most_bytes → entry_count file ≤ most_entries → directory_size (entry_count file) ≤ length file →
      Cartridge file
  chained_all all small few listed = record {
    small = small;
    few = few;
    listed = listed;
    apart = λ j k l m. c.apart j k l (omega arith);
    after = λ j l. (c.right j (omega arith)).after;
    within = λ j l. (c.right j (omega arith)).within;
    entries = λ j l. (c.right j (omega arith)).entry;
  }
