-- Worked examples: which files are replaced, and what permissions the new one gets.
use Rattle.std.proofs.Common.{◌≡◌, refl, true, false, [], ◌∷◌, Some, None}
use Rattle.odht_tool_core.specs.Replaced.{obstacle_of, obstacle_text, kept_mode}
use Rattle.odht_tool_core.specs.declared.obstacles.Obstacle.TheVariants.{Folder, Fifo, Device, Socket, Irregular, ReadOnly, Links}

-- ---- what is replaced
-- what is no regular file never is, whatever its permissions and its names
pub kinds : (obstacle_of 0o040755 3 true ≡ Some Folder)
    × (obstacle_of 0o010644 1 true ≡ Some Fifo)
    × (obstacle_of 0o020666 1 true ≡ Some Device)
    × (obstacle_of 0o060660 1 true ≡ Some Device)
    × (obstacle_of 0o140755 1 true ≡ Some Socket)
    × (obstacle_of 0o120777 1 true ≡ Some Irregular)
kinds = (refl, refl, refl, refl, refl, refl)

-- a regular file is where its owner may write it, who else may
pub owners : (obstacle_of 0o100600 1 false ≡ None)
    × (obstacle_of 0o100200 1 false ≡ None)
    × (obstacle_of 0o100444 1 false ≡ Some ReadOnly)
    × (obstacle_of 0o100466 1 true ≡ Some ReadOnly)
    × (obstacle_of 0o104555 1 true ≡ Some ReadOnly)
owners = (refl, refl, refl, refl, refl)

-- and where it has no other name, or that is allowed
pub names : (obstacle_of 0o100644 2 false ≡ Some (Links 2))
    × (obstacle_of 0o100644 2 true ≡ None)
    × (obstacle_of 0o100644 0 false ≡ None)
    × (obstacle_of 0o100444 2 false ≡ Some ReadOnly)
names = (refl, refl, refl, refl)

-- `its owner may not write it`
pub text : obstacle_text ReadOnly ≡ 105 ∷ 116 ∷ 115 ∷ 32 ∷ 111 ∷ 119 ∷ 110 ∷ 101 ∷ 114 ∷ 32 ∷ 109 ∷ 97 ∷ 121 ∷ 32 ∷ 110 ∷ 111 ∷ 116 ∷ 32 ∷ 119 ∷ 114 ∷ 105 ∷ 116 ∷ 101 ∷ 32 ∷ 105 ∷ 116 ∷ []
text = refl

-- ---- the permissions of the new file
-- with the owner and the group of the old one: those of the old one, except the rights to run as these
pub kept : (kept_mode 0o100600 true true ≡ 0o600)
    × (kept_mode 0o100664 true true ≡ 0o664)
    × (kept_mode 0o106755 true true ≡ 0o755)
    × (kept_mode 0o101666 true true ≡ 0o666)
kept = (refl, refl, refl, refl)

-- in another group: what the old group and the others could both do, for either
pub other_group : (kept_mode 0o100640 true false ≡ 0o600)
    × (kept_mode 0o100644 true false ≡ 0o644)
    × (kept_mode 0o100664 true false ≡ 0o644)
    × (kept_mode 0o100604 true false ≡ 0o600)
    × (kept_mode 0o100626 true false ≡ 0o622)
other_group = (refl, refl, refl, refl, refl)

-- of another owner: what the old owner could do too, for the group and the others
pub other_owner : (kept_mode 0o100640 false true ≡ 0o640)
    × (kept_mode 0o100666 false true ≡ 0o666)
    × (kept_mode 0o100277 false true ≡ 0o222)
other_owner = (refl, refl, refl)

-- of another owner, in another group: both
pub neither : (kept_mode 0o100640 false false ≡ 0o600)
    × (kept_mode 0o100644 false false ≡ 0o644)
    × (kept_mode 0o100660 false false ≡ 0o600)
    × (kept_mode 0o100266 false false ≡ 0o222)
neither = (refl, refl, refl, refl)
