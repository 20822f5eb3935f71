-- Why a program stops at its input. Definitions only.
use Rattle.std.specs.Prelude.{List, ◌≡◌, ℕ}
use Rattle.io.specs.Counts.{IsPrefixLen}
use Rattle.console.specs.declared.Stopped.{Stopped}
use Rattle.console.specs.declared.Stopped.TheVariants.{Unread}

-- A read failed, and what was read before it stands at the start of the buffer.
abbrev pub IsUnread : Stopped → (buf : List ℕ) → Type 0
IsUnread why buf = (len : ℕ) × (why ≡ Unread len) × IsPrefixLen len buf
