-- An answer for each shape. Generated from lists/shapes.txt by make generate.
use Rattle.odht_tool_reads.proofs.commands.get.get_lines_of.Goals as goal

pub returns-in-U32ToU32-for_shape : goal.returns-in-U32ToU32-for_shape
returns-in-U32ToU32-for_shape g c = rw c.in-U32ToU32-for_shape.is c.for_shape-get_lines.ensures

pub returns-in-DirectU32ToU32-for_shape : goal.returns-in-DirectU32ToU32-for_shape
returns-in-DirectU32ToU32-for_shape g c = rw c.in-DirectU32ToU32-for_shape.is c.for_shape-get_lines-2.ensures

pub returns-in-U64ToU32-for_shape : goal.returns-in-U64ToU32-for_shape
returns-in-U64ToU32-for_shape g c = rw c.in-U64ToU32-for_shape.is c.for_shape-get_lines-3.ensures

pub returns-in-U64ToU64-for_shape : goal.returns-in-U64ToU64-for_shape
returns-in-U64ToU64-for_shape g c = rw c.in-U64ToU64-for_shape.is c.for_shape-get_lines-4.ensures

pub returns-in-U64Set-for_shape : goal.returns-in-U64Set-for_shape
returns-in-U64Set-for_shape g c = rw c.in-U64Set-for_shape.is c.for_shape-get_lines-5.ensures

pub returns-in-Bytes8ToU32-for_shape : goal.returns-in-Bytes8ToU32-for_shape
returns-in-Bytes8ToU32-for_shape g c = rw c.in-Bytes8ToU32-for_shape.is c.for_shape-get_lines-6.ensures

pub returns-in-Bytes8ToU64-for_shape : goal.returns-in-Bytes8ToU64-for_shape
returns-in-Bytes8ToU64-for_shape g c = rw c.in-Bytes8ToU64-for_shape.is c.for_shape-get_lines-7.ensures

pub returns-in-Bytes16ToU32-for_shape : goal.returns-in-Bytes16ToU32-for_shape
returns-in-Bytes16ToU32-for_shape g c = rw c.in-Bytes16ToU32-for_shape.is c.for_shape-get_lines-8.ensures

pub returns-in-Bytes16ToU64-for_shape : goal.returns-in-Bytes16ToU64-for_shape
returns-in-Bytes16ToU64-for_shape g c = rw c.in-Bytes16ToU64-for_shape.is c.for_shape-get_lines-9.ensures

pub returns-in-Bytes20ToU64-for_shape : goal.returns-in-Bytes20ToU64-for_shape
returns-in-Bytes20ToU64-for_shape g c = rw c.in-Bytes20ToU64-for_shape.is c.for_shape-get_lines-10.ensures

pub returns-in-Bytes32ToU64-for_shape : goal.returns-in-Bytes32ToU64-for_shape
returns-in-Bytes32ToU64-for_shape g c = rw c.in-Bytes32ToU64-for_shape.is c.for_shape-get_lines-11.ensures

pub returns-in-Bytes16ToBytes16-for_shape : goal.returns-in-Bytes16ToBytes16-for_shape
returns-in-Bytes16ToBytes16-for_shape g c = rw c.in-Bytes16ToBytes16-for_shape.is c.for_shape-get_lines-12.ensures

pub returns-in-Bytes32ToBytes32-for_shape : goal.returns-in-Bytes32ToBytes32-for_shape
returns-in-Bytes32ToBytes32-for_shape g c = rw c.in-Bytes32ToBytes32-for_shape.is c.for_shape-get_lines-13.ensures

pub returns-in-Bytes8Set-for_shape : goal.returns-in-Bytes8Set-for_shape
returns-in-Bytes8Set-for_shape g c = rw c.in-Bytes8Set-for_shape.is c.for_shape-get_lines-14.ensures

pub returns-in-Bytes16Set-for_shape : goal.returns-in-Bytes16Set-for_shape
returns-in-Bytes16Set-for_shape g c = rw c.in-Bytes16Set-for_shape.is c.for_shape-get_lines-15.ensures

pub returns-in-Bytes20Set-for_shape : goal.returns-in-Bytes20Set-for_shape
returns-in-Bytes20Set-for_shape g c = rw c.in-Bytes20Set-for_shape.is c.for_shape-get_lines-16.ensures

pub returns-in-Bytes32Set-for_shape : goal.returns-in-Bytes32Set-for_shape
returns-in-Bytes32Set-for_shape g c = rw c.in-Bytes32Set-for_shape.is c.for_shape-get_lines-17.ensures
