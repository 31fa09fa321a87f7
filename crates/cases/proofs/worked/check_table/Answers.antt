use Rattle.std.proofs.Common.{◌≡◌, ℕ, List, refl, arith}
use Rattle.sums.specs.Parts.{parted}
use Rattle.tables.specs.Accounts.{lendable_of}
use Rattle.tables.specs.declared.account.Right.{Right}
use Rattle.tables.specs.declared.account.Right.TheVariants.{Neither, Lend, Borrow, Both}
use Rattle.tables.specs.declared.account.Mode.TheVariants.{Preset}
use Rattle.cases.proofs.worked.check_table.Goals as goal

none_lendable : (right : Right) (grade available : ℕ) (presets : List ℕ) → lendable_of (record { right = right; grade = grade; mode = Preset; presets = presets }) available 5 8 ≡ 0
none_lendable Neither grade available presets = refl
none_lendable Lend grade available presets = omega arith
none_lendable Borrow grade available presets = refl
none_lendable Both grade available presets = omega arith

pub returns : goal.returns
unfolding parted
returns c =
    record {
      rates = refl;
      fee = refl;
      clearing = refl;
      earned = refl;
      kept = refl;
      covers = refl;
      falls_short = refl;
      window = refl;
      first = refl;
      even = refl;
      none_lendable = none_lendable;
    }
