-- Which files are replaced, and what permissions the new one gets. A mode is that of the system: the kind of a file,
-- and below it twelve bits, of which the last nine are what the owner, the group and all others may do.
--     irregular k              why a file of this kind is not replaced, if there is a reason
--     obstacle_of m n b        why a file of the mode m and of n names is not replaced, if there is a reason; b says that
--                              other names may be left with the old file
--     is_device m          a file of the mode m is a device
--     obstacle_text o          what `{}` writes of a reason
--     within_owner m           a mask: all bits of the owner, and of the group and the others those that the owner has
--     in_both m                a mask: all bits of the owner, and of the group and the others those that both have
--     kept_mode m o g          the permissions of the new file, where it keeps the owner (o) and the group (g), or not
use Rattle.std.specs.Prelude.{ℕ, ◌*◌, ◌/◌, Bool, ◌||◌, List, ◌++◌, codes, decimal, Option, Some, None, bit_and, bit_or, nat_le, ◌==◌, if◌then◌else◌}
use Rattle.odht_tool_core.specs.declared.obstacles.Obstacle.{Obstacle}
use Rattle.odht_tool_core.specs.declared.obstacles.Obstacle.TheVariants.{Folder, Fifo, Device, Socket, Irregular, ReadOnly, Links}

-- ---- what is replaced
abbrev pub irregular : ℕ → Option Obstacle
irregular k =
    if k == 0o100000 then None
    else (if k == 0o040000 then Some Folder
    else (if k == 0o010000 then Some Fifo
    else (if k == 0o140000 then Some Socket
    else (if (k == 0o060000) || (k == 0o020000) then Some Device
    else Some Irregular))))

abbrev pub regular_obstacle : ℕ → ℕ → Bool → Option Obstacle
regular_obstacle m n b =
    if bit_and m 0o200 == 0 then Some ReadOnly
    else (if nat_le n 1 || b then None else Some (Links n))

abbrev pub obstacle_or : Option Obstacle → Option Obstacle → Option Obstacle
obstacle_or (Some o) other = Some o
obstacle_or None other = other

abbrev pub obstacle_of : ℕ → ℕ → Bool → Option Obstacle
obstacle_of m n b = obstacle_or (irregular (bit_and m 0o170000)) (regular_obstacle m n b)

abbrev pub is_device : ℕ → Bool
is_device m = let k = bit_and m 0o170000 in (k == 0o060000) || (k == 0o020000)

abbrev pub obstacle_text : Obstacle → List ℕ
obstacle_text Folder = codes "it is a folder, not a regular file"
obstacle_text Fifo = codes "it is a FIFO, not a regular file"
obstacle_text Device = codes "it is a device, not a regular file"
obstacle_text Socket = codes "it is a socket, not a regular file"
obstacle_text Irregular = codes "it is not a regular file"
obstacle_text ReadOnly = codes "its owner may not write it"
obstacle_text (Links count) =
    codes "it has " ++ decimal count
    ++ codes " names (hard links), and the others would keep the old file; --break-links goes on"

-- ---- the permissions of the new file
abbrev pub within_owner : ℕ → ℕ
within_owner m = bit_or (bit_or 0o700 (bit_and (m / 8) 0o070)) (bit_and (m / 64) 0o007)

abbrev pub in_both : ℕ → ℕ
in_both m = bit_or (bit_or 0o700 (bit_and m 0o007 * 8)) (bit_and (m / 8) 0o007)

abbrev pub kept_mode : ℕ → Bool → Bool → ℕ
kept_mode m o g = bit_and m (bit_and (if o then 0o777 else within_owner m) (if g then 0o777 else in_both m))
