mod FirstTiles
mod Absent
